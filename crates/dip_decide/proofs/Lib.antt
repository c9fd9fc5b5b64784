pub mod FromEquations
pub mod Situated
pub mod ResultLaws
pub mod Cycles
pub mod Stands
pub mod Tested
pub mod Commuting
mod Taken
mod Woken
mod Unbroken
mod Marked
mod Opened
