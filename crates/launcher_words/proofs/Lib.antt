pub mod CutLaws
pub mod PairLaws
pub mod PlaceLaws
pub mod RangeLaws
