pub mod Laws
pub mod Accepted
pub mod Versions
pub mod Allows
pub mod Words
pub mod Refusals
pub mod Table
