pub mod RunLaws
pub mod RowRuns
pub mod OutcomeLaws
pub mod TextLaws
pub mod DemoLaws
pub mod PieceLaws
