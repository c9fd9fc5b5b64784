pub mod Intents
pub mod Masters
pub mod Others
pub mod Repeats
pub mod Standing
pub mod Strangers
pub mod Thirds
pub mod Untold
