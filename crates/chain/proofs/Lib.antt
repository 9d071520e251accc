pub mod DraftLaws
pub mod KeepLaws
