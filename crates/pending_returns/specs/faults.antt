-- pairs of ranges, of which one faults on the other's end
pub mod Clash
