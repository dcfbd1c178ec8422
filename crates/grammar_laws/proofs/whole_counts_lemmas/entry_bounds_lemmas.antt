-- What an entry redefines.
pub mod Redefined
-- Files by their FDs.
pub mod Selected
-- Usages as they are handed down.
pub mod Usages
-- Entry by entry.
pub mod Bound
