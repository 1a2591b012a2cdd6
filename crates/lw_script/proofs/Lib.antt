mod InputAnswers
mod LinesAlike
mod Outcomes
mod PatternLists
mod ReadPlans
mod Rows
