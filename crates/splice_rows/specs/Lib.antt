pub mod OneRequires
