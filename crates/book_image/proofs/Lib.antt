pub mod AcceptedLaws
pub mod ImageLaws
pub mod RenewedLaws
pub mod RestoringLaws
pub mod TripLaws
pub mod WritingLaws
