pub mod Checked
pub mod Boards
pub use Rattle.dip_map_chart.specs.Charts
pub use Rattle.dip_map_chart.specs.Walks
