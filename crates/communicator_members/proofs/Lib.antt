mod InGroups
