pub mod NoX
