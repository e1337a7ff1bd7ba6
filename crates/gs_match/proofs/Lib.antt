pub mod SearchLaws
pub mod AugmentLaws
pub mod AdjacencyLaws
pub mod RowLaws
pub mod ByLeftLaws
pub mod HallLaws
pub mod PerfectLaws
