pub mod RequestCalls
