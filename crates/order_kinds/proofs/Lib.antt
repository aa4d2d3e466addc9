pub mod RoleLaws
pub mod PlaceLaws
