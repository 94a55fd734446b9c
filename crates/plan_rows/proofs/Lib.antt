mod RowLoops
