pub mod ResultLaws
pub mod SettingsLaws
