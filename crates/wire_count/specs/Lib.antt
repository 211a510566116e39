pub mod StoreFault
