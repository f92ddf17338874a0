pub mod VoxelFacts
