pub mod Refusing
pub mod Headline
