pub mod HiddenLaws
