pub mod FourteenLaws
pub mod FrameLaws
pub mod ReadingLaws
pub mod SealLaws
pub mod StoredLaws
pub mod WritingLaws
