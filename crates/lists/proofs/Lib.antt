pub mod Tests
pub mod Only
pub mod Count
pub mod Changes
pub mod Once
pub mod Put
pub mod Listed
pub mod Among
