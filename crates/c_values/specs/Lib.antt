pub mod Results
pub mod Settings
