pub mod NumbersByName
pub mod ParamNamesApart
