pub mod CellLaws
pub mod PictureLaws
