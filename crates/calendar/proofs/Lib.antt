-- The calendar's laws.
pub mod Real
pub mod Order
pub mod Calendar
