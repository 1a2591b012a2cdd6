mod DemoNames
mod ReadOn
mod DemoLines
mod DemoCalls
mod DemoTasks
