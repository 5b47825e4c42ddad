pub mod Values
pub mod Places
pub mod Words
pub mod Texts
pub mod Reports
pub mod Complaints
pub mod Inner
