-- what is asked of bodies
pub mod Sound
-- trees and graphs whose bodies are sound
pub mod Trees
-- what holds of them
pub mod Laws
