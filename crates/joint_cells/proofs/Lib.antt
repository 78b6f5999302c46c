pub mod ScanLaws
pub mod ShiftLaws
pub mod VacantLaws
