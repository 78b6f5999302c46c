pub mod List
pub mod Window
