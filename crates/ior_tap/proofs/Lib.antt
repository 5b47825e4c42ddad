pub mod Loop
pub mod Grammar
pub mod Written
pub mod CallerLemmas
