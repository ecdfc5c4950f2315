pub mod Laying
pub mod Ordinary
