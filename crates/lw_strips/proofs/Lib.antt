pub mod RowsLaws
pub mod BlockLaws
pub mod OverlapLaws
pub mod LayingLaws
pub mod PlaceLaws
pub mod PoolLaws
pub mod ExchangeLaws
pub mod LendingLaws
