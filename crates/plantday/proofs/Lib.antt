mod TurnByPhase
