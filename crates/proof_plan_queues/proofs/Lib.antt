mod LineProofs
