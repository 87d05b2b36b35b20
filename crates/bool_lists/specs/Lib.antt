pub mod BoolLists
