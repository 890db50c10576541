pub mod FollowCallLaws
