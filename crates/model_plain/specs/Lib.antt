pub mod Formulas
pub mod Parts
pub mod FormulaLaws
pub mod Roles
