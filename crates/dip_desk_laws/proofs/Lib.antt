pub mod Standing
pub mod Others
pub mod Stranging
pub mod Thirds
pub mod Intents
pub mod Mastering
pub mod Repeating
pub mod RepeatingLater
