mod FoldSteps
