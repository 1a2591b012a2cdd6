mod TilesLaws
mod StepLaws
mod ReadLaws
mod NotingLaws
