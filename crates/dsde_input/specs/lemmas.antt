pub mod Flooring
