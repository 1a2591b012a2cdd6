mod JoinedBoxes
