pub mod SeenShapes
