pub mod Computing
pub mod FilledPlans
