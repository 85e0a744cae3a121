pub mod Grammar
pub mod Program
