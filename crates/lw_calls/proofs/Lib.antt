pub mod OrderGroups
pub mod OrdersComplete
pub mod OrderReading
pub mod TwoTasks
pub mod BlitClass
pub mod Ranges
pub mod LimitLaws
