pub mod Count
pub mod Put
pub mod Listed
pub mod Among
pub mod Once
pub mod Tests
