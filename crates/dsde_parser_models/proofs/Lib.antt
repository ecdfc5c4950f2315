pub mod Laying
pub mod ExprLaid
pub mod StmtLaid
pub mod ItemLaid
pub mod DeclLaid
