mod AreaCounts
mod AreasFound
mod GzzCounts
mod GzzFound
mod NamedPairs
mod NamesWith
