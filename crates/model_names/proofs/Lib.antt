pub mod NamesApart
pub mod SettingTexts
