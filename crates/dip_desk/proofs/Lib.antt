pub mod Sighting
