pub mod BringingLemmas
