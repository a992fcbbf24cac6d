pub mod FlatLaws
pub mod OriginalLaws
pub mod BehaviourLaws
