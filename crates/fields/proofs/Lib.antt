pub mod Decimal
pub mod Laws
pub mod Printed
pub mod Putting
