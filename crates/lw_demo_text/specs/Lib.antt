pub mod DemoText
