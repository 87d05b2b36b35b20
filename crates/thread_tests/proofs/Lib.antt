mod FilledPlane
